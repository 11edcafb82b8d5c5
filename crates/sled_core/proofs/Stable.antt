pub mod EndLemmas
pub mod KnownEnds
pub mod Noted
pub mod OfLog
pub mod OneEnd
pub mod TakenIn
pub mod Waiting
