pub mod Grammar
pub mod Answers
pub mod Searches
pub mod Searchers
pub mod Serving
