pub mod Moves
pub mod Commands
pub mod Jobs
pub mod Scripts
