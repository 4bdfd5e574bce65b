pub mod CodeTexts
pub mod Items
pub mod Marked
pub mod Lines
pub mod Stages
pub mod Making
pub mod Opening
