pub mod Handing
pub mod Told
pub mod Clocks
pub mod Faulting
