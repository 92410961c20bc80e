pub mod Handlers
pub mod mirror
