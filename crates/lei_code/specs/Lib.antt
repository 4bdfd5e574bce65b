pub mod Texts
pub mod Number
pub mod Code
pub mod Digits
pub mod Fault
