pub mod Attached
pub mod Batches
pub mod Coursed
pub mod Founds
pub mod Lines
pub mod Written
mod Somes
