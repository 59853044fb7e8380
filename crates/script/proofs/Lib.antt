mod Cutting
mod Decimals
mod Scales
mod Scripts
