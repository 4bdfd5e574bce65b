pub mod Inputs
pub mod Likeness
pub mod OneWay
pub mod QueryFronts
