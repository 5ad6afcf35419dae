pub mod Draws
pub mod Fills
pub mod Lists
