pub mod Searches
pub mod Holders
