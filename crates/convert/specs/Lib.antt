pub mod Names
pub mod Records
pub mod Convert
pub mod Old
pub mod mirror
