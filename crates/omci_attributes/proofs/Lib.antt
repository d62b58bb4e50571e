pub mod Sums
mod Places
