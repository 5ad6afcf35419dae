pub mod Benches
pub mod Summaries
pub mod Tallies
pub mod Turns
pub mod Laws
