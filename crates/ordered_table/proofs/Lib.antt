-- For the crates above.
pub mod Laws
-- How the promise comes about.
mod Calls
mod Writing
mod Collecting
mod Finishing
