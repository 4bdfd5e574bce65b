pub mod Links
pub mod Groups
pub mod Places
pub mod Arcs
pub mod Indexed
pub mod Named
pub mod Listings
pub mod Reports
