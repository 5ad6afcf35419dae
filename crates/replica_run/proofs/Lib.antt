pub mod Crosses
pub mod Likeness
pub mod Pairs
pub mod Running
