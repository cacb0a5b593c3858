pub mod Held
pub mod Sizes
pub mod Scope
pub mod Pairs
pub mod Kinds
pub mod Seen
pub mod Pieces
pub mod Operators
