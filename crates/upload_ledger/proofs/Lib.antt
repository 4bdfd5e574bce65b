pub mod PlaceLemmas
pub mod IndexLemmas
pub mod KeptLemmas
