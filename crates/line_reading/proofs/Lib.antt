pub mod Asking
pub mod LineLemmas
pub mod LineRuns
pub mod LineFronts
pub mod Lined
pub mod Sending
pub mod Walking
pub mod Stopping
