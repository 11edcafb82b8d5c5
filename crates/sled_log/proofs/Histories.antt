pub mod Beginnings
pub mod LastBeginnings
pub mod PagesAlone
pub mod Sizes
