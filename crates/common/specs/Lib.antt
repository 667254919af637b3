pub mod Choice
pub mod Sizes
pub mod Lists
pub mod Answers
pub mod Refusals
pub mod Points
pub mod Refs
