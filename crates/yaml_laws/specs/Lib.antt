pub mod Indents
pub mod Refused
