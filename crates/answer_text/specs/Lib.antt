pub mod Answers
pub mod Notices
pub mod Refusals
pub mod States
