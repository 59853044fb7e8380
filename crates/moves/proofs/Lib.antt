pub mod Aptness
pub mod Calls
pub mod Sounds
pub mod Steps
