pub mod Homes
pub mod Row
pub mod Register
