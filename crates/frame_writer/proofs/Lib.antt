-- For the crates above.
pub mod Laws
-- How the promises come about.
mod Setting
mod Kept
mod Checked
