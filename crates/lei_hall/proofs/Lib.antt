pub mod Turning
pub mod Closing
pub mod Callers
pub mod Sent
pub mod Looking
