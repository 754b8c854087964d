pub mod Possible
pub mod Restored
pub mod Readers
