pub mod Checks
pub mod Commands
pub mod Names
pub mod Rows
pub mod Schemas
pub mod Texts
