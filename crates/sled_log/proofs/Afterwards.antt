pub mod EndsBelow
pub mod ForgottenSlots
pub mod KeptBelow
pub mod LastNames
pub mod LastOwn
pub mod LeftGood
pub mod LogOwn
pub mod OrderlyBelow
