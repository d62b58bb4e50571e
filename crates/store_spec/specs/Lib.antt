pub mod Deeds
pub mod Effects
pub mod History
pub mod State
