-- What is promised, in reading order.
pub mod System
pub mod Words
pub mod Values
-- What only helps proofs.
pub mod Causes
pub mod Rounds
