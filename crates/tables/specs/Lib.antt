pub mod Refusals
pub mod Lines
pub mod Ledgers
pub mod Legal
