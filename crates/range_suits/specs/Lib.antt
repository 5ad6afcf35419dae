pub mod Laws
pub mod Suits
