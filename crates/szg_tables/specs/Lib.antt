pub mod Stored
pub mod Distances
pub mod Listed
pub mod Images
pub mod Opened
pub mod Hints
pub mod Mapped
pub mod Fetched
