-- For the crates above: laws of the finite system, of what its rules derive, and of its solutions.
pub mod Bounds
pub mod Entries
pub mod Taking
pub mod Solved
-- How the promises come about.
mod Ahead
mod Derived
mod Numbers
