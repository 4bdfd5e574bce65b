pub mod Large
pub mod Fitting
pub mod Steps
pub mod Served
pub mod OneReply
