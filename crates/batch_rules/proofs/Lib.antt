pub mod Agree
pub mod Carriers
pub mod Causes
mod Commits
mod Examples
pub mod Fates
pub mod Installs
pub mod Judges
pub mod Keeping
pub mod Lists
pub mod Maps
pub mod Meets
pub mod Numberings
pub mod Pairs
pub mod Places
pub mod Plays
pub mod Serials
pub mod Waves
pub mod Within
pub mod Writers
