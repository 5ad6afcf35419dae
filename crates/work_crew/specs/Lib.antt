pub mod Hands
pub mod Gathered
