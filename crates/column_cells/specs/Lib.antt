pub mod Strides
pub mod Columns
pub mod inner
