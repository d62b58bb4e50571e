pub mod Searches
pub mod Running
pub mod Latest
pub mod Standing
pub mod Once
