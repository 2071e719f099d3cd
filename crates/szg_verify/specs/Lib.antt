pub mod Entries
pub mod Verified
pub mod Conditions
pub mod Materials
pub mod Memory
pub mod Walk
pub mod Laws
