-- Cases A to J hold.
pub mod Cases
-- How that comes about.
mod Rows
mod Every
mod Sets
mod Entries
mod Numbers
mod Solving
mod Safety
mod Order
mod Choosing
mod Evidence
mod Claims
