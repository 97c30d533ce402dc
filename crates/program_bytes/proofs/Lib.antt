-- For the crates above: the laws of this one, of what there is for each number below a bound, and of reading the bytes of records.
pub mod Laws
pub mod Each
pub mod Reading
-- How the laws come about.
mod Pairs
mod Own
mod Edges
mod Parts
mod Passed
mod Described
mod Fit
