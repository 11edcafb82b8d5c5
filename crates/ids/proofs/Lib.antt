mod BoundLemmas
mod FirstPlaces
mod FoundBounds
mod Generating
mod Moments
mod Opening
pub mod PublicLaws
mod ReadLemmas
mod Running
mod Stepping
