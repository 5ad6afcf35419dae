pub mod Checks
pub mod Codes
pub mod Laws
pub mod Outs
pub mod Standing
pub mod Texts
