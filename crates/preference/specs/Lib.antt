-- What is believed, in reading order.
pub mod Depth
pub mod Preference
-- What only helps proofs.
pub mod Levels
pub mod Places
