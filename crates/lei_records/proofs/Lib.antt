pub mod SuccessorTexts
pub mod PassLemmas
pub mod OptionLemmas
pub mod FindLemmas
pub mod PrintedLemmas
pub mod FieldTextLemmas
