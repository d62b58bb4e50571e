pub mod Calling
pub mod Carrying
pub mod Changing
pub mod Counting
pub mod Trapping
pub mod Running
pub mod Starting
