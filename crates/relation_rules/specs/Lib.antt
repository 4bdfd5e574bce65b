pub mod Statuses
pub mod Parents
pub mod Checks
pub mod Checking
pub mod Needs
