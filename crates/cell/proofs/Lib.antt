pub mod Cells
pub mod Cases
pub mod Forms
pub mod Halves
pub mod Numbers
pub mod Points
pub mod ReadBack
