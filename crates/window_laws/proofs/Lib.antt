pub mod Fitting
pub mod Gathering
pub mod Sections
pub mod Windows
