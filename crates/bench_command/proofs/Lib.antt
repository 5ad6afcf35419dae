mod Bounds
mod Once
mod Runs
mod Tallied
mod Totals
