pub mod Fitting
pub mod Orders
pub mod Reserved
pub mod Shares
pub mod TextWords
pub mod Trees
pub mod Words
