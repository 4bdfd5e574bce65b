pub mod Finding
pub mod NameValues
pub mod OneReply
pub mod ReadFiles
pub mod Fitting
pub mod Taking
