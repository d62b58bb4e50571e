pub mod Items
pub mod Faults
pub mod Matched
pub mod Made
pub mod Turns
pub mod Answers
