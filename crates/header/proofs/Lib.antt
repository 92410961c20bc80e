pub mod Laws
pub mod Searched
pub mod Inside
pub mod Cases
pub mod Numbers
