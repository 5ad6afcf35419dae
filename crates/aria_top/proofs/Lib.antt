pub mod Asked
pub mod Ranges
pub mod Stopped
pub mod OnStores
pub mod Alike
