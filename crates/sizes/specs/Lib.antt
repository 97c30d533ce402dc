-- What is believed, in reading order.
pub mod Answer
pub mod Call
-- What only helps proofs.
pub mod Known
pub mod Trials
