pub mod Json
pub mod JsonTexts
pub mod JsonReading
pub mod Files
pub mod Patching
pub mod Merging
pub mod Trails
pub mod Items
