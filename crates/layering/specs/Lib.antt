pub mod Traffic
pub mod Plays
