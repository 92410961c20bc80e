pub mod Bytes
pub mod Write
pub mod Narrow
pub mod Whole
