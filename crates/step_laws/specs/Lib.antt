pub mod InStep
pub mod Worked
