pub mod Loops
pub mod Members
pub mod Values
pub mod OrderedLemmas
pub mod JsonTexts
pub mod InThreads
pub mod Ready
