pub mod Draws
pub mod Ycsb
