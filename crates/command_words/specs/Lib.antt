pub mod Builds
pub mod Lines
pub mod Options
pub mod Rows
pub mod Settings
pub mod Shapes
pub mod Tables
pub mod Values
