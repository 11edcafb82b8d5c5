pub mod Ends
pub mod EndsIn
pub mod Found
pub mod Logs
pub mod Owns
pub mod Parted
pub mod Places
pub mod Segments
