pub mod SheetLemmas
pub mod Codes
pub mod SuccessorShapes
pub mod RowLemmas
pub mod NameLemmas
pub mod PairLemmas
pub mod RowSteps
