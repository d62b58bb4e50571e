pub mod Worked
pub mod Facts
pub mod Seen
pub mod WorkedCopies
