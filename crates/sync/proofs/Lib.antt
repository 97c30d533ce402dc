-- For the crates above: the laws of this one, of paths, and of sets of words.
pub mod Laws
pub mod Paths
pub mod Members
-- How the promises come about.
mod Rooms
mod Offering
mod Leaving
mod Looking
mod Passing
mod Closing
mod Settling
mod Calls
mod Same
