pub mod Agreement
pub mod Checks
pub mod Judging
pub mod Outcomes
pub mod Overlays
pub mod Sittings
pub mod Taking
pub mod Fitting
