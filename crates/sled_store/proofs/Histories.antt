pub mod Ascending
pub mod EarlierEntries
pub mod PageStates
pub mod TableParts
