mod Ended
mod Replayed
mod Whole
