-- What is believed, in reading order.
pub mod Calls
pub mod CallOrder
pub mod Answer
-- What only helps proofs.
pub mod Rows
