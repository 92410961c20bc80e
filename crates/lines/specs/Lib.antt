pub mod Line
pub mod mirror
