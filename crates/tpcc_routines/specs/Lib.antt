pub mod Answers
pub mod Routines
pub mod Turns
pub mod Mixes
pub mod Sound
