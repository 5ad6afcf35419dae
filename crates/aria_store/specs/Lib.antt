pub mod Records
pub mod Reopens
pub mod Stands
pub mod Causes
pub mod Courses
pub mod Laws
