pub mod Codes
pub mod Left
