pub mod Applying
pub mod Walks
