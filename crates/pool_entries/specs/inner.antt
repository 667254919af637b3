-- What the contracts of private functions say; the public ones cite nothing of it.
pub mod Adding
pub mod Fit
pub mod Held
pub mod Look
pub mod Sound
