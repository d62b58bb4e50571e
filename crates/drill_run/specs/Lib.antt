pub mod Tallied
pub mod Drilled
