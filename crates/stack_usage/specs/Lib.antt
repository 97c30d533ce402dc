-- What is believed.
pub mod Call
-- What only helps proofs.
pub mod Mention
pub mod Names
pub mod Report
pub mod Counted
