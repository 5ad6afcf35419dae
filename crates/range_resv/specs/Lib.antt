pub mod Answers
pub mod Commits
pub mod Engines
pub mod Lists
