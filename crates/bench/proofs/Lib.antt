pub mod Orders
pub mod Ways
