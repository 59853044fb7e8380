pub mod Places
pub mod Applied
pub mod Acting
pub mod Rows
