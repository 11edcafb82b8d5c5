pub mod FoundLemmas
pub mod GivesLemmas
pub mod InSlot
pub mod PathLemmas
pub mod PointerLemmas
pub mod ReadingLemmas
pub mod ScanLemmas
pub mod SummedInPlace
