-- What is believed.
pub mod Bytes
-- What only helps proofs.
pub mod Pairs
