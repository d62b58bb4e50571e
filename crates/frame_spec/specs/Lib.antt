pub mod Checksum
pub mod Widths
pub mod Entities
pub mod Baseline
