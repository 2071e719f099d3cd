pub mod Digests
pub mod Logs
pub mod Runs
pub mod Verified
