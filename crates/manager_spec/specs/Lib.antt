pub mod Manager
pub mod Copying
pub mod Resync
pub mod Audit
pub mod Jobs
pub mod Submitting
pub mod Upgrade
pub mod Steps
