mod Conflicts
mod Served
mod Turns
