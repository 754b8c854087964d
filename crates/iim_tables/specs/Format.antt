pub mod Kinds
pub mod Dates
pub mod Rows
pub mod Records
