pub mod Causes
pub mod Scripts
