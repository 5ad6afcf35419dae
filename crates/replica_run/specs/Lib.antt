pub mod Jobs
pub mod Replicas
