pub mod Header
pub mod Slots
pub mod Calls
pub mod Numbers
pub mod mirror
