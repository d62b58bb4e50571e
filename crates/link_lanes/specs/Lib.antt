pub mod Latest
pub mod Fresh
pub mod Lent
