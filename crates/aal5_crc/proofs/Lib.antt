pub mod Bits
pub mod Numbers
pub mod Steps
pub mod Sums
pub mod Entries
pub mod Blocks
pub mod Value
pub mod Mixing
