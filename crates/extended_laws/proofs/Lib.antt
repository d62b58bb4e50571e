pub mod Sound
pub mod Long
pub mod Sets
pub mod Stands
pub mod Lists
pub mod Contents
pub mod Messages
