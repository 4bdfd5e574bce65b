pub mod PacketLemmas
pub mod ReadyLemmas
pub mod SettlingLemmas
pub mod TakingLemmas
pub mod FollowingLemmas
