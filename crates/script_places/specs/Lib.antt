pub mod Follows
pub mod Places
