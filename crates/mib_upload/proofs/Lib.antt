pub mod Places
pub mod Cutting
pub mod Carried
pub mod Taking
pub mod Bits
pub mod Overlays
pub mod Joined
