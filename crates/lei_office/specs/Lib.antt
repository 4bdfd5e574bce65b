pub mod Offices
pub mod Opening
pub mod Faults
pub mod Answering
