pub mod CallRecords
pub mod Calls
pub mod Copies
pub mod Crc
pub mod Failures
pub mod Formats
pub mod Mirrors
