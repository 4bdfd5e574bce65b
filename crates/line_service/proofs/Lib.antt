pub mod Ending
pub mod Fitting
pub mod Completing
pub mod Opening
