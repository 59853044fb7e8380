mod Opening
mod Turns
