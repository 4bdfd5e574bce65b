pub mod Words
pub mod Desks
pub mod Ends
pub mod Workers
