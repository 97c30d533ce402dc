-- For the crates above: laws of the rules, of calls, and of trials.
pub mod Laws
pub mod Calls
pub mod Trying
-- How the promises come about.
mod Closing
