pub mod Plain
pub mod Grid
pub mod Column
pub mod Layouts
pub mod Answers
pub mod Bits
pub mod Points
