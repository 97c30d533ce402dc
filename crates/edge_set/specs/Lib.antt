-- What is believed.
pub mod From
