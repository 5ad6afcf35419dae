pub mod Crowds
pub mod Flaws
pub mod Halts
pub mod Lines
pub mod Orders
pub mod Reports
pub mod Runs
pub mod Serial
