pub mod Places
pub mod Runs
pub mod Breaches
pub mod Once
pub mod Input
pub mod Output
