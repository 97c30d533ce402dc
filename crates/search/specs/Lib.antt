-- The promise of the search, and what only helps proofs.
pub mod Walk
pub mod Verdict
pub mod Problem
