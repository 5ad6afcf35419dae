pub mod NamesAgain
pub mod Texts
