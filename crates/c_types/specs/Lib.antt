pub mod Answers
pub mod Columns
pub mod Points
pub mod Pools
pub mod Promises
pub mod Tables
pub mod Unknown
pub mod Values
