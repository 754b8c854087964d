pub mod Messages
pub mod Causes
