pub mod Sort
pub mod Frame
pub mod Read
