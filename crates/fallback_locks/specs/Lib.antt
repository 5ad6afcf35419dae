pub mod LastWaves
pub mod Numbers
pub mod Reruns
