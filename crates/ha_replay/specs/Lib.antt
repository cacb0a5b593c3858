pub mod Traces
pub mod Steps
pub mod Digits
pub mod Boots
