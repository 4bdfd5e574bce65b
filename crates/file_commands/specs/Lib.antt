pub mod Codes
pub mod Files
pub mod TwoFiles
pub mod Applying
pub mod Grouping
pub mod Sides
pub mod Searching
pub mod Mirroring
