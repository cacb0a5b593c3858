pub mod BookLemmas
pub mod PlaceLemmas
pub mod SwitchLaws
pub mod StoredLaws
pub mod StandLemmas
