pub mod Turns
pub mod Measures
pub mod Wholes
pub mod Ends
