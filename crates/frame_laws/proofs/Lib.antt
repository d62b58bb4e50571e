pub mod Lengths
pub mod Places
pub mod Sound
pub mod Spelling
pub mod Reading
pub mod Worked
pub mod Faults
