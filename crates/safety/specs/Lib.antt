-- What is believed, in reading order.
pub mod Safety
pub mod Call
-- What only helps proofs.
pub mod Test
pub mod Trial
