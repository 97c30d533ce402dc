-- For the crates above: words which list the rules are solved as they are.
pub mod Worded
-- How the promises come about.
mod Listing
mod Widest
