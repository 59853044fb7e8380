pub mod Endings
pub mod Servings
