mod Tcis
pub mod Reading
mod Unit
pub mod Likeness
pub mod Keeping
pub mod Manager
mod Following
mod Sending
mod Ticks
pub mod Turns
mod Arrivals
mod Taking
mod Lines
pub mod Runs
pub mod Reached
pub mod Seen
pub mod HandingOn
pub mod Worked
pub mod WorkedCopies
