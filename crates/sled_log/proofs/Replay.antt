pub mod BlobLemmas
pub mod FirstSnapshot
pub mod LineLemmas
pub mod LookLemmas
pub mod PassedLemmas
pub mod RecoveryLemmas
