pub mod Needs
pub mod Notes
pub mod Reads
