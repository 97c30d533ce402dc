-- What is believed.
pub mod Call
-- What only helps proofs.
pub mod Edges
