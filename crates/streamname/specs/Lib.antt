pub mod Letters
pub mod Names
pub mod Calls
pub mod Promises
pub mod Points
pub mod inner
