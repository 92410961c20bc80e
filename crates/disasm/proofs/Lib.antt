pub mod Passing
pub mod Laws
pub mod Searched
pub mod Counts
pub mod Checking
