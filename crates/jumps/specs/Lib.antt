pub mod Jumps
pub mod Numbers
