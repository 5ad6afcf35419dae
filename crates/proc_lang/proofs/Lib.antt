pub mod Arguments
pub mod Crosses
mod Smaller
