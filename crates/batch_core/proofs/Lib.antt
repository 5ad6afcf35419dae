pub mod Carriers
pub mod Consistency
pub mod Numbers
pub mod Progress
pub mod Serial
