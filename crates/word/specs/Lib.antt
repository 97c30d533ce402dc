-- What is believed.
pub mod Bit
pub mod First
pub mod Words
