-- What only helps proofs.
pub mod Order
