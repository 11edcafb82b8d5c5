pub mod CrashLemmas
pub mod CrashLogLemmas
pub mod ForeignLemmas
pub mod LeavesLemmas
pub mod SettledLemmas
pub mod StoodLemmas
pub mod SyncedLemmas
