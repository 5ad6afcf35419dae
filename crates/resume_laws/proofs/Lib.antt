mod Asks
mod Catches
mod Stopped
