pub mod Right
pub mod Queue
