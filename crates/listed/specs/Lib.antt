-- What only helps proofs.
pub mod Within
pub mod Lent
pub mod Listed
