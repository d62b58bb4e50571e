pub mod Streams
pub mod Baseline
