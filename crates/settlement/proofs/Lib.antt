mod Filling
pub mod Makes
pub mod Sending
