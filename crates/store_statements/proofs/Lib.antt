pub mod CheckLemmas
pub mod ListLemmas
pub mod Meanings
