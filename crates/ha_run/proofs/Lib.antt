pub mod TellLemmas
pub mod ServedLemmas
pub mod WrittenLemmas
pub mod TeamLemmas
pub mod CrewLemmas
pub mod RoundLemmas
pub mod FinishLemmas
pub mod HandedLemmas
