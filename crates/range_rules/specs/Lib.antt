pub mod Batches
pub mod Courses
pub mod Fronts
pub mod Laws
pub mod Scans
pub mod Serials
pub mod Walks
