pub mod Same
pub mod V8Names
