pub mod Cores
pub mod Events
pub mod Found
pub mod Kinds
pub mod Machines
pub mod Marks
pub mod Phases
pub mod Words
