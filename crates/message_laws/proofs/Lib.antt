pub mod Places
pub mod Forms
pub mod Paddings
pub mod Rows
pub mod Reading
pub mod Causes
pub mod Texts
