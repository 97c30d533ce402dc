-- For the crates above: the laws of a word's bits, and of sets kept in words.
pub mod Bits
pub mod Words
