-- For a caller.
pub mod Laws
pub mod Ordered
-- How the promises come about.
mod Telling
