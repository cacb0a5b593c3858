pub mod AskedLemmas
pub mod CountLemmas
pub mod ToldLemmas
pub mod WholeLemmas
