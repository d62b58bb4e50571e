mod Digits
pub mod Arguments
