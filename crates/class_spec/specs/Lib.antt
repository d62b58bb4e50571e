pub mod Classes
pub mod Masks
