pub mod Completing
pub mod Trails
pub mod Unopened
