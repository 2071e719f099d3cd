pub mod Geometry
pub mod Men
pub mod Moves
pub mod Counts
pub mod Positions
