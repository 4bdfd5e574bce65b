pub mod Calls
pub mod Crash
pub mod Forms
pub mod Same
pub mod Stored
pub mod Told
