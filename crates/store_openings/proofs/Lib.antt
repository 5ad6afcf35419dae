pub mod Fits
pub mod Ways
pub mod Keeping
pub mod Readings
pub mod Savings
