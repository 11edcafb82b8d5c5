pub mod Announced
pub mod LowestHalf
pub mod OwnNames
pub mod OwnParts
pub mod OwnPast
pub mod Seen
