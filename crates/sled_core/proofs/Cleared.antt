pub mod Calls
pub mod Emptied
pub mod Moves
pub mod Offsets
pub mod Shown
