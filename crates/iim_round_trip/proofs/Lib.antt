pub mod Packed
pub mod Given
