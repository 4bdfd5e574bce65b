pub mod Headers
pub mod Routes
pub mod Heads
pub mod Asking
pub mod Requests
pub mod Responses
pub mod Laws
