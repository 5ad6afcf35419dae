pub mod Keeping
pub mod Completing
pub mod Taking
pub mod Few
pub mod Lengthening
pub mod Putting
pub mod Beginning
