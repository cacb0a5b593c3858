pub mod IdTexts
pub mod Opened
pub mod Steps
