pub mod BlindLemmas
pub mod FieldLemmas
pub mod HelperCalls
pub mod OnceLemmas
pub mod Rolls
pub mod SideLemmas
