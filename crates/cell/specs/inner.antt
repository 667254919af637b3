pub mod Forms
pub mod Signed
