pub mod Answers
pub mod Codes
pub mod Judgements
pub mod Engines
pub mod Lasts
pub mod Lates
pub mod Lists
pub mod Marks
