pub mod Puts
pub mod Keeps
pub mod Closing
