pub mod Benches
pub mod Replies
