pub mod NameLemmas
pub mod CaseLemmas
