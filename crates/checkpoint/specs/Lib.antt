pub mod Heads
pub mod Damage
pub mod Slots
pub mod Gates
pub mod Causes
pub mod Laws
