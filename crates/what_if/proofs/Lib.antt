-- For a caller: a list and the call for one choice.
pub mod Laws
pub mod Calls
-- How the promises come about.
mod Parts
mod Stepping
