pub mod Objects
pub mod Causes
pub mod Packing
