pub mod Applied
pub mod Lawful
