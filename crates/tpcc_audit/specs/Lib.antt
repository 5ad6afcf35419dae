pub mod Facts
pub mod Books
pub mod Conditions
pub mod Laws
