pub mod StateLaws
pub mod StandLemmas
pub mod SeenLemmas
