pub mod LogLemmas
pub mod LooseLemmas
pub mod OverwrittenLemmas
pub mod StandsLemmas
