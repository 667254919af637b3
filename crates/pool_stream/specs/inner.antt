-- What the contracts of private functions say; the public ones cite nothing of it.
pub mod Found
pub mod Sizes
pub mod Write
