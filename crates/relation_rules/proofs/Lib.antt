pub mod ActiveLemmas
pub mod ParentLemmas
pub mod CheckLemmas
pub mod PutLemmas
pub mod ChainLemmas
pub mod ApartLemmas
pub mod NeedLemmas
