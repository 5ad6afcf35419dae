mod ColumnKinds
mod Drawing
mod Turning
pub mod Fitting
