pub mod Outcome
pub mod Extremes
