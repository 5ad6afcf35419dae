pub mod Contents
pub mod Files
pub mod Histories
pub mod Causes
pub mod Steps
pub mod Recorded
pub mod Tapes
pub mod Readings
