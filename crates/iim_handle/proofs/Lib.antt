pub mod AsBox
pub mod Closed
pub mod Ends
pub mod Fed
