pub mod Words
pub mod Limits
pub mod Faults
pub mod Requests
pub mod Refusals
pub mod Readings
pub mod ExitStatuses
