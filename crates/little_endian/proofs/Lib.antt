pub mod Laws
pub mod Points
pub mod Promises
