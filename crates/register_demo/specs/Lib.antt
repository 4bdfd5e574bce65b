pub mod Codes
pub mod Bodies
pub mod Plan
pub mod Marks
pub mod Summary
pub mod Requests
pub mod Session
