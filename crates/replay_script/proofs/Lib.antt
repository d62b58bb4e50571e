pub mod Loops
pub mod Faults
pub mod Public
