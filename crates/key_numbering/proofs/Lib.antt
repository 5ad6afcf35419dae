pub mod Beside
pub mod Maps
pub mod Growing
pub mod Settling
