pub mod Bounds
pub mod Starts
