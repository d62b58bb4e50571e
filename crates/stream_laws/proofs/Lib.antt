pub mod Courses
pub mod Unique
pub mod Baseline
