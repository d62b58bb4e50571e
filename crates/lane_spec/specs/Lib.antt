pub mod Command
pub mod Lane
