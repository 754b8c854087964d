pub mod Restored
pub mod Blocks
pub mod Unpacking
pub mod Intakes
