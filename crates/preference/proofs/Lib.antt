-- For the crates above: which spawn comes first is a strict total order, a function has one depth, and the spawns alone are in order.
pub mod Firsts
-- How the promises come about.
mod Levels
mod Places
