pub mod ListLemmas
pub mod AnyLemmas
pub mod IndexLemmas
