pub mod Passes
pub mod Turns
pub mod Looks
pub mod Closing
pub mod Calling
