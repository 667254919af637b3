pub mod Points
pub mod Pooled
pub mod inner
