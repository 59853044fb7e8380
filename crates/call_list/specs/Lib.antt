pub mod Fields
pub mod Script
