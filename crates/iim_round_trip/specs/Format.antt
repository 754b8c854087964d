pub mod RoundTrip
pub mod Stories
pub mod Faults
