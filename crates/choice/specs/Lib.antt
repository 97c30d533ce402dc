-- What is believed, in reading order.
pub mod Beats
pub mod Call
-- What only helps proofs.
pub mod Best
