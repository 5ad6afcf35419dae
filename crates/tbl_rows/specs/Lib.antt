pub mod Codes
pub mod Hashes
pub mod Pools
pub mod Shards
