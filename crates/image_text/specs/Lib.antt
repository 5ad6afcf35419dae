pub mod Bodies
pub mod Entries
pub mod Exactly
pub mod Fronts
pub mod Helds
pub mod Lines
pub mod Payloads
