-- What the proofs of several functions use.
mod Mapped
pub mod Numbers
pub mod Points
mod UnknownTypes
