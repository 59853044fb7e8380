mod Audited
mod Unmoved
