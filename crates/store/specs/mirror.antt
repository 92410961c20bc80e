pub mod Falls
pub mod Ordered
