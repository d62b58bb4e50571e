pub mod Shaped
pub mod Worked
