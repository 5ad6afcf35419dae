pub mod Drafts
pub mod Inits
pub mod Replays
