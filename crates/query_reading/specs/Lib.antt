pub mod Refusals
pub mod Replies
pub mod Meanings
pub mod QueryFrames
pub mod Inputs
