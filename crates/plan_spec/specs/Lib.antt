pub mod Wanting
pub mod Steps
pub mod Carrying
