pub mod Clock
pub mod Lists
pub mod Moment
pub mod Shape
