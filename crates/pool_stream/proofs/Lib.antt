pub mod Planning
pub mod Points
pub mod Promises
pub mod Reading
pub mod Writing
