pub mod Packed
pub mod Orders
