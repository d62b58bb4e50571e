pub mod Carries
pub mod Counts
pub mod Stands
pub mod Starts
