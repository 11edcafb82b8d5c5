pub mod MomentLemmas
pub mod ScriptLemmas
pub mod StopLemmas
pub mod Walks
