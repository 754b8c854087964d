pub mod Octets
pub mod Datasets
pub mod Faults
