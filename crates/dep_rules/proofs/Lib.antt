mod Joined
pub mod Leasts
mod Lists
mod Marks
pub mod Sheets
