pub mod Deeds
pub mod Explained
pub mod Worked
