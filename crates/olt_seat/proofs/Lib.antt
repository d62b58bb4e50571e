pub mod Told
pub mod Playing
pub mod Opening
pub mod Sending
pub mod Hearing
