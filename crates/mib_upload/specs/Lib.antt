pub mod Groups
pub mod Merged
pub mod Parts
pub mod Faults
pub mod Snapshots
pub mod Joins
