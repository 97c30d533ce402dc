-- How the promises come about.
pub mod Ends
