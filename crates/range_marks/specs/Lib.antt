pub mod Decisions
pub mod Marks
pub mod Within
