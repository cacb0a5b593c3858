pub mod Stepping
pub mod Turned
pub mod Between
pub mod Opened
pub mod Reloaded
pub mod Lasts
