pub mod Beside
pub mod Lookups
pub mod Numbers
