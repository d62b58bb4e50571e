pub mod Channel
pub mod Moves
