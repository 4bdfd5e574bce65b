pub mod Outside
pub mod Runs
pub mod Ends
