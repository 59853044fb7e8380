pub mod Paired
pub mod Ways
pub mod Limits
pub mod Joins
pub mod Pass
pub mod Verdict
pub mod Audited
