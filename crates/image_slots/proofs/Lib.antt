pub mod Results
pub mod Tests
pub mod Formatting
pub mod Mounting
