pub mod Targets
pub mod V8
pub mod Form
pub mod mirror
