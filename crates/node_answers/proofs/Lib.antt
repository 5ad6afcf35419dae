pub mod Merging
pub mod Shares
pub mod Printed
pub mod Stepped
pub mod Founds
