-- For the crates above: laws of the choice returned, of calls, and of what two walks come to.
pub mod Laws
pub mod Calls
pub mod Winning
-- How the promises come about.
mod Leaving
