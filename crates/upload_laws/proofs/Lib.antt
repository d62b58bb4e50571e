pub mod Masks
pub mod Runs
pub mod Joins
