pub mod AgreeLemmas
pub mod NoteLemmas
