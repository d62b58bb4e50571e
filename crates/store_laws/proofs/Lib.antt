pub mod Papers
pub mod Steps
pub mod Boots
pub mod Tests
