pub mod Listing
pub mod mirror
