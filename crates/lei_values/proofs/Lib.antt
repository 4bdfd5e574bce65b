pub mod PieceLemmas
pub mod Places
