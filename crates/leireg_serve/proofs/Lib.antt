pub mod Lines
pub mod Lists
pub mod Apart
pub mod Served
pub mod Opened
pub mod Meanings
