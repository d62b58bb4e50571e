pub mod Crash
pub mod Header
pub mod Layout
pub mod Outcome
pub mod Owner
pub mod Rig
pub mod Slots
