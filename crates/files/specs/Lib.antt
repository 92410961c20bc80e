pub mod PrintedBy
