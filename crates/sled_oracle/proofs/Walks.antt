pub mod AnswerLemmas
pub mod ElementLemmas
pub mod FoundLemmas
pub mod NameLemmas
pub mod NoteLemmas
pub mod ReadWalk
pub mod SlotLemmas
pub mod WalkLemmas
