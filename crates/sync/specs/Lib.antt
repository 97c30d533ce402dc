-- What is believed, in reading order.
pub mod Paths
pub mod Synchronising
pub mod Words
pub mod Pass
pub mod Answer
pub mod Found
-- What only helps proofs.
pub mod Room
pub mod Search
pub mod Passing
