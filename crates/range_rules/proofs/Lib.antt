pub mod Counts
pub mod Courses
pub mod Moving
mod Parted
pub mod Printed
pub mod Serials
pub mod Tells
pub mod Walks
