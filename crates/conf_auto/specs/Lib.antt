pub mod Automations
pub mod Config
pub mod HelperMaps
pub mod Names
pub mod Read
pub mod Scripts
pub mod Sizes
