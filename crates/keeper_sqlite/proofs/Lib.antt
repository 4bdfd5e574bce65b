pub mod RowLemmas
pub mod StoreLemmas
pub mod TransactionLemmas
pub mod KeepLemmas
pub mod SinceLemmas
