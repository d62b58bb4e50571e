pub mod Tci
