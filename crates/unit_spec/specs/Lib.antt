pub mod Images
pub mod Onu
pub mod Noticing
