pub mod Database
pub mod Requests
