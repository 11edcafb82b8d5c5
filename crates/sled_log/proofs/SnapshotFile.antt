pub mod BeginLemmas
pub mod CallLemmas
pub mod NewestLemmas
pub mod Numbers
pub mod OtherLemmas
pub mod PublishLemmas
pub mod RemovalLemmas
