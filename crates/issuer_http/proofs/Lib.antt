pub mod Faults
pub mod Ranging
pub mod Sending
pub mod Fronts
pub mod Offices
pub mod Callers
