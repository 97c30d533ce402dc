-- What is believed, in reading order.
pub mod Below
pub mod Refusal
pub mod Record
pub mod Kind
pub mod Checks
pub mod Answer
pub mod Result
pub mod Program
pub mod WellFormed
pub mod SameButEdges
-- What only helps proofs.
pub mod Scan
