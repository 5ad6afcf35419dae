mod Guarded
mod Noting
mod Routines
mod Works
