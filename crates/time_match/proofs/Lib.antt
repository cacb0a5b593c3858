pub mod SearchLemmas
pub mod SteadyLemmas
pub mod DayLemmas
