pub mod Fits
pub mod Instr
pub mod Back
pub mod Inverse
