-- How the promises come about.
pub mod Orders
