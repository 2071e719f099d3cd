pub mod Reporting
pub mod Listing
pub mod Asking
pub mod Hashing
pub mod Logging
mod Results
