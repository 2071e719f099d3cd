pub mod Results
pub mod Folders
pub mod Lines
pub mod Objects
