pub mod Torn
pub mod Showing
pub mod Looking
