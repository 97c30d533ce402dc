-- For the crates above: what rules derive, what gains on what, and the values of entries.
pub mod Rises
pub mod Values
-- How the promise comes about.
mod Rounds
