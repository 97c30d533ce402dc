-- For the crates above.
pub mod Laws
-- How the promises come about.
mod Parts
mod Forms
mod Written
mod Counts
mod Pieces
