pub mod Drafts
pub mod Moves
