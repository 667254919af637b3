pub mod Strides
pub mod Parts
pub mod Columns
