-- What only helps proofs.
pub mod AllOrdered
pub mod Ends
