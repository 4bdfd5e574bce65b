pub mod Giving
pub mod Sessions
pub mod Counting
pub mod Failing
pub mod Sending
pub mod FrameLists
mod Filling
pub mod Running
pub mod Parts
mod Refusing
mod Ending
mod Completing
