pub mod Requests
pub mod Responses
pub mod Frames
pub mod FramesStay
pub mod Serving
pub mod Callers
