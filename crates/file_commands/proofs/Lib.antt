pub mod FileReading
pub mod TwoFilesRead
pub mod Applied
pub mod Grouped
pub mod Serving
pub mod Searched
pub mod Mirrored
