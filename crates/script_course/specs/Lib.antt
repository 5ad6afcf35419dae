pub mod Causes
pub mod Courses
pub mod Laws
pub mod Served
