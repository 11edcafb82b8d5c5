pub mod OwnBehind
pub mod OwnLemmas
pub mod OwnRecords
