pub mod Codes
pub mod Fields
pub mod Types
pub mod Requests
pub mod Responses
pub mod Reading
pub mod Text
