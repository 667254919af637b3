pub mod Layout
pub mod Rows
pub mod Reading
pub mod Writing
pub mod Points
pub mod inner
