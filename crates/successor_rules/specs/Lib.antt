pub mod Chains
pub mod Levels
pub mod Successors
pub mod Walks
