pub mod Drafted
pub mod Inputs
mod Refused
