-- What is believed.
pub mod Line
pub mod Records
pub mod State
