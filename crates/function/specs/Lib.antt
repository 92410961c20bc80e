pub mod Files
pub mod Pool
pub mod Code
pub mod mirror
