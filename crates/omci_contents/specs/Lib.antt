pub mod Front
pub mod Digits
