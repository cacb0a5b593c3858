pub mod TableShift
pub mod MovedLemmas
pub mod SplitLemmas
pub mod OverLemmas
