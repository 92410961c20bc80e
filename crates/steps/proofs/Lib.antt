pub mod Laws
pub mod Same
pub mod Listed
pub mod Caught
pub mod Keeps
