pub mod Pool
pub mod Function
