pub mod Lists
pub mod Graph
pub mod mirror
