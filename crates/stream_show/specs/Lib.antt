pub mod Buffer
pub mod Runs
