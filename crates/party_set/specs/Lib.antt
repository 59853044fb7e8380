pub mod Searches
pub mod Sets
