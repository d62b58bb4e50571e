pub mod Link
pub mod Held
