pub mod Grammar
pub mod Answering
pub mod Sizes
pub mod Serving
pub mod Following
