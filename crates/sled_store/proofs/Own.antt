pub mod ReachedLemmas
pub mod SlotLemmas
pub mod ReaderLemmas
pub mod RangeLemmas
pub mod NoRecord
