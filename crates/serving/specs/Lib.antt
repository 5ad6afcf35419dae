pub mod Lives
pub mod Deliveries
pub mod Drains
pub mod Stored
