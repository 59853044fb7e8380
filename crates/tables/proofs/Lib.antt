pub mod Tests
pub mod Legality
