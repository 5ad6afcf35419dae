pub mod Bounds
pub mod Nexts
pub mod Storing
pub mod Served
