-- What is believed.
pub mod Listing
-- What only helps proofs.
pub mod Chosen
