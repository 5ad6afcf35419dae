pub mod Writes
pub mod Dues
pub mod Installs
