pub mod Told
pub mod Started
pub mod States
pub mod Standing
pub mod Lined
pub mod Printed
pub mod Ending
pub mod Draining
