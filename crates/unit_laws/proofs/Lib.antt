pub mod Own
pub mod Sound
