pub mod StatusLine
pub mod Causes
pub mod Written
pub mod Files
