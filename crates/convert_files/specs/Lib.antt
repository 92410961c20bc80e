pub mod ConvertedBy
