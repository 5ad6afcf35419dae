pub mod Gates
pub mod Reached
pub mod Scans
pub mod Stages
