pub mod Fallbacks
pub mod Windows
pub mod Numbers
pub mod Layouts
