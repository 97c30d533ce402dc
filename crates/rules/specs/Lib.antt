-- What is believed, in reading order.
pub mod Choice
pub mod Rules
pub mod Sums
-- What only helps proofs.
pub mod System
pub mod Entries
pub mod Numbered
