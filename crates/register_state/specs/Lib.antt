pub mod Books
pub mod Crashes
pub mod Judging
pub mod Planning
pub mod Deciding
pub mod Replaying
pub mod Shelving
