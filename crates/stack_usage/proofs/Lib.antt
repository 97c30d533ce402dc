-- How the promises come about.
pub mod Laws
mod Calls
mod Mentions
mod Listing
mod Noting
mod Reading
mod Counting
mod Setting
