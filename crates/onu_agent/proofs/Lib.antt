pub mod Asked
pub mod Beginning
pub mod Coming
pub mod Measured
pub mod Replies
