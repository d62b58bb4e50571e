pub mod Gathered
pub mod Rows
pub mod Downloads
pub mod Sections
pub mod Granted
pub mod Sent
