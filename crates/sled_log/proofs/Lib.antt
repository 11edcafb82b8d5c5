pub mod Afterwards
pub mod Again
pub mod Histories
pub mod Iterates
pub mod Moments
pub mod Ordering
pub mod PageTable
mod Passes
pub mod PublicLaws
pub mod Reached
pub mod Ready
pub mod Recovers
pub mod Replay
pub mod Sessions
pub mod SnapshotFile
pub mod WriteBack
