-- For the crates above: the law of the text.
pub mod Laws
-- How the promises come about.
mod Fields
mod Joining
mod Whole
