pub mod Alarms
pub mod Log
pub mod Table
