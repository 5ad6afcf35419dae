pub mod Asked
pub mod Settling
pub mod Databases
pub mod Ready
