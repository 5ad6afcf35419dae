pub mod Carried
pub mod Loaded
pub mod Once
