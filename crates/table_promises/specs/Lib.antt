pub mod Promises
pub mod Points
