pub mod Asks
pub mod Scripts
pub mod Outs
pub mod Laws
pub mod Codes
pub mod Bases
pub mod Batches
pub mod Standing
