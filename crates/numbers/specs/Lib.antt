pub mod Told
pub mod Back
pub mod mirror
