pub mod Refusals
pub mod Openings
pub mod Runs
pub mod Saved
