mod Few
pub mod Judging
mod Marking
mod Sheeting
mod Spots
mod Touching
