pub mod Calls
pub mod Choose
pub mod Entries
pub mod Points
pub mod Rooms
pub mod Sound
pub mod inner
