pub mod Index
pub mod Forms
