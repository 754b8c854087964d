pub mod Reading
pub mod Devices
