pub mod AttemptLemmas
pub mod PlaceLemmas
pub mod AloneLemmas
pub mod PlainRuns
