pub mod Counts
pub mod Moments
pub mod Devices
pub mod Sessions
pub mod Wires
pub mod ReadBuffers
pub mod Frames
pub mod Serving
