pub mod Frames
pub mod Streams
pub mod Text
pub mod Layouts
pub mod Messages
