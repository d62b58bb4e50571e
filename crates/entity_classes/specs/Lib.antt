pub mod Kinds
pub mod Rule
