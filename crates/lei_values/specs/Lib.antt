pub mod Count
pub mod Pieces
pub mod KeptTables
