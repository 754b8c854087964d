pub mod Words
pub mod BlockSteps
pub mod Lines
pub mod Packings
