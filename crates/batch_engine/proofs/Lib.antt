mod Batching
mod Committing
mod Deciding
mod Judging
mod LateNumbers
pub mod Readying
mod Settling
