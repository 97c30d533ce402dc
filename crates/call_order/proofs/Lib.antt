-- For the crates above: the laws of this one.
pub mod Laws
-- How they come about.
mod Reaching
mod Counting
mod Standing
mod Rows
mod Placing
