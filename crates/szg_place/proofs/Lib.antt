pub mod Ranks
pub mod Symmetries
pub mod MenOnSlots
pub mod Indexes
pub mod Placements
pub mod Rows
