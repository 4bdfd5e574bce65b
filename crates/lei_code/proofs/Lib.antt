pub mod Numbers
pub mod Places
pub mod Remainders
pub mod Faults
pub mod Made
pub mod Orders
