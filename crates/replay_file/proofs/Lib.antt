pub mod CutLemmas
pub mod FrontLemmas
pub mod BootLemmas
pub mod ToldLemmas
pub mod StopLemmas
pub mod TakeLemmas
pub mod WriteLemmas
pub mod ReplayLemmas
