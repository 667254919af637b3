-- What the proofs of several functions use.
pub mod Handed
pub mod Shown
pub mod UnknownKinds
