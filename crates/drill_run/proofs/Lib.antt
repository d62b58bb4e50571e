pub mod Words
pub mod Counting
pub mod Running
pub mod Lines
pub mod Summing
