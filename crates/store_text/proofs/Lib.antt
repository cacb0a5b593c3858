pub mod FlagLemmas
pub mod OrderLemmas
