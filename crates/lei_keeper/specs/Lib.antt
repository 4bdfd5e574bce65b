pub mod Keeping
pub mod Faults
