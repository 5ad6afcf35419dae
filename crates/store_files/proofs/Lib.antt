pub mod Whole
pub mod Rotates
pub mod Appends
pub mod Syncs
pub mod Attaching
