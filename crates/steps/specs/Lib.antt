pub mod Steps
pub mod mirror
