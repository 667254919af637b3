pub mod Cells
pub mod Forms
pub mod Points
pub mod Promises
pub mod inner
pub mod Kinds
pub mod Handed
