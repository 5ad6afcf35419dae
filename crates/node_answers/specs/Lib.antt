pub mod Runs
pub mod Merges
