pub mod Clocks
pub mod KeepingLemmas
pub mod CellLemmas
