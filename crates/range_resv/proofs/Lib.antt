mod Apart
mod Batching
mod Settling
