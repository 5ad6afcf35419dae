pub mod Torn
pub mod Images
pub mod Spans
pub mod Moments
pub mod Noted
pub mod Replays
