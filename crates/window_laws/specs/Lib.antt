pub mod Gathering
pub mod Sending
pub mod Worked
