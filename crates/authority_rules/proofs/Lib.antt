pub mod MapLemmas
pub mod HolderLemmas
pub mod PutLemmas
pub mod KeyLemmas
pub mod UnderKeys
pub mod SoundLemmas
