pub mod Draws
pub mod Rows
pub mod Heads
pub mod Requests
