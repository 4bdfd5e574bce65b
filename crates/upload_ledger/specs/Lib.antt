pub mod Limits
pub mod History
pub mod Places
pub mod State
pub mod Index
pub mod Ledgers
