pub mod FilledRest
pub mod NothingNew
pub mod RecoversAgain
pub mod StopsLast
pub mod ZeroedSlots
