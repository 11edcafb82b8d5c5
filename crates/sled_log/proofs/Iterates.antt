pub mod BeginLemmas
pub mod FoundLemmas
