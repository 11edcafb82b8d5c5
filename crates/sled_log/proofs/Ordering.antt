pub mod CollectedLemmas
pub mod SortedSegments
