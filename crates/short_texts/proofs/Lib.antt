pub mod NumberLemmas
pub mod PairLemmas
