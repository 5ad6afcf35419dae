pub mod Resumptions
