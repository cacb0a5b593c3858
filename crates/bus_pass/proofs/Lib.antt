pub mod Lists
pub mod HandLemmas
pub mod Moves
pub mod BootLemmas
pub mod OriginLemmas
