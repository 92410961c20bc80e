pub mod Painting
pub mod Words
