mod Accesses
mod Examples
mod Expressions
mod Few
mod Lists
mod Registers
mod Results
pub mod Runs
mod Statements
mod Trees
