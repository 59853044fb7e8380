mod Answering
mod Heads
mod Written
