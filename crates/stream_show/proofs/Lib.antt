mod Frames
mod CountLemmas
mod Buffers
mod Reading
mod Gathering
mod Streams
pub mod Stops
