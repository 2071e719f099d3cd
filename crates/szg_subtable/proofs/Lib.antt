pub mod Pairs
pub mod Builders
mod Rows
