pub mod Refusals
pub mod Scopes
pub mod Stops
