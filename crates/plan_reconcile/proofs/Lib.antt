pub mod Places
pub mod Rows
pub mod Wanting
pub mod Matching
pub mod Naming
pub mod Creating
pub mod Setting
pub mod Planning
