pub mod Tasks
pub mod Disks
pub mod Out
pub mod Statuses
