pub mod EntryLemmas
pub mod FrontLemmas
pub mod SearchLemmas
pub mod SortedLemmas
