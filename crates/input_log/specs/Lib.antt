pub mod Layout
pub mod Causes
