-- For the crates above: the laws of this one, and safety from tests of nodes and edges.
pub mod Laws
pub mod Judging
-- How the promises come about.
mod Cuts
mod Testing
