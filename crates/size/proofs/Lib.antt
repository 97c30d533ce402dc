-- For the crates above: laws of sizes as numbers, of arrays of them, of numbers that are written, and of what a frame counts as.
pub mod Values
pub mod Maps
pub mod Writing
pub mod Frames
