pub mod Men
pub mod Words
pub mod Requested
pub mod Jobs
pub mod Chosen
