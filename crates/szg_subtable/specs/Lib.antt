pub mod Pairing
pub mod Counting
pub mod Building
pub mod SubtableRule
pub mod PackedSubtable
