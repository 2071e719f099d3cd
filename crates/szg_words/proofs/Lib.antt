mod Digits
pub mod Words
