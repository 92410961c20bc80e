pub mod Searched
pub mod Passing
