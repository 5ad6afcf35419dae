pub mod Careful
pub mod Laws
