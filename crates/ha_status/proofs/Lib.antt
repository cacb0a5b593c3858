pub mod WrittenLemmas
pub mod CauseLemmas
pub mod FileLemmas
