-- For the crates above: how a chain goes on.
pub mod Latest
pub mod Walks
-- How the promise comes about.
mod Chains
