pub mod Opening
pub mod Numbers
pub mod Left
pub mod Names
pub mod Vectors
pub mod FewHex
