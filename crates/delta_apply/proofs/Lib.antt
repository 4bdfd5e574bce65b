pub mod Widening
pub mod Putting
pub mod Answering
