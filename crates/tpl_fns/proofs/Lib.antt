pub mod CutLemmas
pub mod ReplaceLemmas
pub mod ListLemmas
