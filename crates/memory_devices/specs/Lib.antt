pub mod Memory
pub mod Clock
pub mod CellLists
