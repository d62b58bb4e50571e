pub mod Cutting
pub mod Exactly
pub mod Digits
pub mod Numbers
