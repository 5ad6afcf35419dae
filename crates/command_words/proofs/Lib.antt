pub mod Walks
pub mod TableLemmas
pub mod ReadLemmas
