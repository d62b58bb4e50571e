pub mod Events
pub mod Marks
pub mod Replies
pub mod Meter
