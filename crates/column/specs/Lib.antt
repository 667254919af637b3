pub mod Bits
pub mod Columns
pub mod Check
pub mod Promises
pub mod Points
pub mod inner
