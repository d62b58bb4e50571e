pub mod Loops
pub mod Joining
