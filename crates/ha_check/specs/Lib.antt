pub mod Configured
pub mod Checked
pub mod Lines
