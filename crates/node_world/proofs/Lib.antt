pub mod Parts
pub mod Behind
pub mod Begun
pub mod Delivered
pub mod Turning
