pub mod Images
pub mod Received
pub mod Starts
pub mod State
