pub mod NameLemmas
pub mod DomainLemmas
pub mod TableLemmas
