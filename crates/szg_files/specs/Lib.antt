pub mod Monitored
pub mod FileSystem
pub mod Disk
pub mod Draft
pub mod Memory
pub mod Ranges
