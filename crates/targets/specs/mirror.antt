pub mod Search
pub mod Jumps
