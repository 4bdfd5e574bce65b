pub mod Statuses
pub mod Transitions
