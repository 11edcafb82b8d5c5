pub mod CopyLemmas
pub mod CrcLemmas
pub mod CrcTables
pub mod FileLemmas
pub mod TraceLemmas
