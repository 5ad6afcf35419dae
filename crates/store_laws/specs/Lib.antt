pub mod OneRuns
pub mod Texts
pub mod Replies
