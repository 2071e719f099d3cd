pub mod Builders
pub mod Texts
pub mod Readers
pub mod Writers
pub mod Rows
mod SizeRows
