pub mod Entries
pub mod Plan
pub mod Points
pub mod Promises
pub mod Write
pub mod inner
