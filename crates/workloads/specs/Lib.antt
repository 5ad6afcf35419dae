pub mod Generators
pub mod Laws
