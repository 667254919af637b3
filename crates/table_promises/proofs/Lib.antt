pub mod Agree
pub mod Pieces
pub mod Rewritten
pub mod Back
pub mod Integers
pub mod Points
