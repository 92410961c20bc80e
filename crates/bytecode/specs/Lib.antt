pub mod Texts
pub mod Decode
pub mod Numbers
