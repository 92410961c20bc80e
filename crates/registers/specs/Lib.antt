pub mod Registers
pub mod Numbers
