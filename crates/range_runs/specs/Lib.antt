pub mod Indexes
pub mod Leasts
pub mod Marks
pub mod Windows
