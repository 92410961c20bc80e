pub mod Down
pub mod Windows
pub mod Point
pub mod Searched
pub mod Checked
pub mod Inside
pub mod Called
pub mod Numbers
