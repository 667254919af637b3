pub mod Judged
pub mod Widths
pub mod Places
