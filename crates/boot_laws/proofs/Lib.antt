pub mod Keeping
pub mod Telling
pub mod Lines
pub mod Starts
