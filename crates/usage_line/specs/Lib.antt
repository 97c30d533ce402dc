-- What is believed, in reading order.
pub mod Bytes
pub mod Line
pub mod Lines
-- What only helps a proof.
pub mod Cut
