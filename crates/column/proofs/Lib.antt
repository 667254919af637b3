pub mod Unnamed
pub mod ReadBack
pub mod Masks
pub mod Types
pub mod Points
