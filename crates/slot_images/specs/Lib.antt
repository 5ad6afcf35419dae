pub mod Images
pub mod Said
pub mod Causes
pub mod Laws
