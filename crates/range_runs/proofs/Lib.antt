pub mod Following
mod Layering
pub mod Marking
mod Ranges
mod RowsUnder
