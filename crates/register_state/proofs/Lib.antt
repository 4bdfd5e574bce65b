pub mod Crashing
pub mod Growing
pub mod Outcomes
pub mod Shelved
pub mod Settling
pub mod Planned
