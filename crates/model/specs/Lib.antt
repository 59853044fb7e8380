pub mod Bench
pub mod Searches
pub mod Steps
pub mod Reference
pub mod Recorded
pub mod Laws
pub mod Decisions
