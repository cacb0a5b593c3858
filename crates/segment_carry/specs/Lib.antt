pub mod ByName
pub mod Sources
pub mod Closing
pub mod Hands
