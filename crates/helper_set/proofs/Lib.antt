mod TimerSteps
mod PlaceSets
mod MeantLemmas
mod StandLemmas
mod ListLemmas
mod FinishLemmas
mod SeenLemmas
mod BootLemmas
mod TakenLemmas
pub mod SightLemmas
