pub mod Next
pub mod Promises
pub mod Points
