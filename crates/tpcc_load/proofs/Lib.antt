pub mod Overs
pub mod Layings
pub mod Advances
pub mod Ordering
pub mod Fitting
