pub mod Bounds
pub mod Generators
pub mod IdDevices
pub mod IdPhases
pub mod IdRuns
pub mod Openings
pub mod Readings
