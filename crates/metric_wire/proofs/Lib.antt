pub mod Steps
mod Varints
mod Blocks
mod Numbers
mod Packed
mod Closed
mod Parts
