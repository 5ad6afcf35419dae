mod Fitting
mod Asked
