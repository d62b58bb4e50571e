pub mod Layout
pub mod Step
pub mod Entries
pub mod Admitted
