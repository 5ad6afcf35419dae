pub mod Courses
pub mod Summaries
pub mod Turns
