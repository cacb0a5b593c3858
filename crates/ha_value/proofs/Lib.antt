mod Pins
pub mod CutLemmas
pub mod ReturnLemmas
pub mod NumberLemmas
pub mod DigitLemmas
pub mod PrintLemmas
pub mod PlaceLemmas
pub mod EntityLemmas
pub mod NameLemmas
