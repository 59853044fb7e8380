pub mod Scales
pub mod Numbers
pub mod Kinds
