pub mod Listed
pub mod Nodes
pub mod Seats
pub mod RowsAt
