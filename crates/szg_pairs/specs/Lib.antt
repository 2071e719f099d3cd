pub mod Entry
pub mod Expansion
pub mod Dictionary
pub mod Laws
pub mod FirstFault
pub mod Walk
pub mod State
