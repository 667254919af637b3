pub mod Points
pub mod Splice
