pub mod ClockLemmas
pub mod CodeLemmas
pub mod ListLemmas
pub mod MomentLemmas
pub mod ShapeLemmas
pub mod StandardFacts
pub mod ValueTexts
