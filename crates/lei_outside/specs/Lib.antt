pub mod Told
pub mod Faults
pub mod Clock
pub mod Links
pub mod Doors
