pub mod Grammar
pub mod Readers
pub mod Writers
pub mod Openings
pub mod Tables
pub mod PackedRows
pub mod Rows
