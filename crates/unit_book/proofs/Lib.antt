pub mod BookLemmas
pub mod FirstLemmas
pub mod GrownLemmas
pub mod StepLemmas
