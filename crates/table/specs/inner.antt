pub mod Layout
pub mod Columns
pub mod Strides
