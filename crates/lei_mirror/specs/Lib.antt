pub mod Packets
pub mod KeptPackets
pub mod Mirrors
pub mod Following
pub mod States
pub mod Changes
pub mod Settling
