pub mod Laws
pub mod Unprefixed
pub mod V8
pub mod V8Cases
