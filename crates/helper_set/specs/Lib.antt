pub mod Kept
pub mod Listed
pub mod Passes
pub mod Changes
