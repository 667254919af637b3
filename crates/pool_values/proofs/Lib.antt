pub mod Pools
pub mod Points
