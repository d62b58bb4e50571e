pub mod Sections
pub mod Waiting
