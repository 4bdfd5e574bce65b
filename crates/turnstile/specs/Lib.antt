pub mod Lists
pub mod Meaning
pub mod Rule
pub mod Steps
pub mod Passes
