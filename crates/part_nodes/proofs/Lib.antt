pub mod Wholes
pub mod Asking
pub mod Passes
pub mod Skipped
