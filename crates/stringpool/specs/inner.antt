-- What the contracts of private functions say; the public ones cite nothing of it.
pub mod Entries
pub mod Judged
pub mod Plan
pub mod Refs
pub mod Show
pub mod Take
