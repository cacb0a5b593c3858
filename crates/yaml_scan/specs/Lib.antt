pub mod Answers
pub mod Block
pub mod Codes
pub mod Lines
pub mod Plain
pub mod Quoted
pub mod Words
