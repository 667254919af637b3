-- Contracts of private steps. They say what the code does on the way, and no more than the code needs.
pub mod Packing
