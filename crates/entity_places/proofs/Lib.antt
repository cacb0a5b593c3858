pub mod PlaceLemmas
mod TableLemmas
