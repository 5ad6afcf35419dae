mod Readiness
mod Suiting
