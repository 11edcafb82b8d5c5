pub mod Alike
pub mod Messages
pub mod Names
pub mod Stands
