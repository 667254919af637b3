pub mod Drop
pub mod Entries
pub mod Judging
pub mod Loads
pub mod Points
pub mod Streams
pub mod Taking
