pub mod States
pub mod Writes
pub mod Growth
pub mod Ends
pub mod Lines
pub mod Dated
pub mod Shown
pub mod Buses
