pub mod Digests
pub mod Names
