pub mod Maps
pub mod Nearest
pub mod Fetching
pub mod Filling
