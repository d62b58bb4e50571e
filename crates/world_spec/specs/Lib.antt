pub mod Happenings
pub mod Ends
pub mod Nodes
pub mod Trace
pub mod History
