pub mod Hides
pub mod HidesAs
pub mod HidesAtRest
pub mod Lasting
pub mod OwnLess
pub mod Stay
pub mod Stood
