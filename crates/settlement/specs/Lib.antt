pub mod Answers
pub mod Left
pub mod Makes
pub mod Tried
