pub mod Caps
pub mod Fits
pub mod Iterators
pub mod Lasting
pub mod Recoverable
pub mod Running
