pub mod Numbers
pub mod Rows
pub mod Laws
pub mod Keeping
pub mod Answers
pub mod Checks
pub mod Searched
