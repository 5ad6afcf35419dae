pub mod Openings
pub mod Holdings
pub mod Stores
pub mod Attachments
