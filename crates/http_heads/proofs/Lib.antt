pub mod Rooms
pub mod Numbers
pub mod HeaderLemmas
pub mod RouteLemmas
pub mod RouteTexts
pub mod MoreBytes
pub mod Reading
pub mod HeadPieces
