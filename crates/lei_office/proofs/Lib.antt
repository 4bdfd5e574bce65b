pub mod Lines
pub mod Differing
pub mod ComparedPages
pub mod Leading
pub mod ReplayedEntries
pub mod ReplayedPages
pub mod Counting
pub mod Sessions
