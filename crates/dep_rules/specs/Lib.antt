pub mod Decisions
pub mod Joined
pub mod Numberings
pub mod Sheets
pub mod Words
