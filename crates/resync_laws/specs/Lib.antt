pub mod Databases
pub mod Agreeing
