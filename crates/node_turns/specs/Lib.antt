pub mod Goings
pub mod Laws
