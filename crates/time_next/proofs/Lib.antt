pub mod DayLemmas
pub mod ChangeLemmas
pub mod ZoneLemmas
pub mod NextLemmas
