pub mod LastWaves
pub mod Filling
pub mod Fitted
mod KeyTables
mod NumberTables
mod Numbers
