pub mod Advances
pub mod Times
pub mod Drawing
