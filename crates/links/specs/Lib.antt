-- What only helps proofs.
pub mod Links
