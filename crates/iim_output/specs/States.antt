pub mod Devices
pub mod PendingOctets
pub mod Holding
