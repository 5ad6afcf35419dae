pub mod Scripts
pub mod Pieces
