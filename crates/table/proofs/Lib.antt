-- For the crates above: the laws of this one, and laws of tests, of numbers below a bound, of lists of checks, of the order of edges and of what `map` makes of an array.
pub mod Laws
pub mod Mapping
pub mod Ready
pub mod Booleans
pub mod Below
pub mod Refusals
pub mod Results
pub mod Ascending
-- How the laws come about.
mod Rows
mod Fields
mod Accepted
mod Order
mod SameButEdges
mod Answer
mod Scanning
mod Counting
mod Told
