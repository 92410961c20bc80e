pub mod Layout
