pub mod Mixes
pub mod Taken
