pub mod Maps
pub mod Kept
pub mod Rows
pub mod Answers
pub mod Steps
