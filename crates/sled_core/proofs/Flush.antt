pub mod Completed
pub mod FlushLemmas
pub mod LogFileKept
pub mod SameFits
pub mod Settled
pub mod WrittenFile
