pub mod Answer
pub mod Bytes
pub mod Characters
pub mod Faults
pub mod Rows
pub mod Spelling
