pub mod Names
pub mod Fields
pub mod Items
pub mod Sheets
