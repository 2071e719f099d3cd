pub mod InPlace
pub mod Passed
