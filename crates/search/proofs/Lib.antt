-- For the crate above: the choice that a walk starts from.
pub mod Laws
-- How the promises come about.
mod Keeping
mod Starting
mod Walking
