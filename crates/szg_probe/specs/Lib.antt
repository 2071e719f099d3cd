pub mod Chess
pub mod Probing
pub mod Images
pub mod Distances
pub mod Laws
pub mod Listed
