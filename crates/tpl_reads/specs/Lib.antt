pub mod Reads
pub mod Agree
pub mod Finds
pub mod Worked
