pub mod Bytes
pub mod Notices
pub mod Places
