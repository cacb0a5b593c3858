pub mod LooseFlow
pub mod LooseText
pub mod Notation
