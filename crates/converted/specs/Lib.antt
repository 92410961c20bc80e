pub mod V8Names
