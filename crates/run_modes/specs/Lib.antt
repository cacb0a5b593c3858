pub mod Lanes
pub mod Table
pub mod Fits
pub mod Calls
pub mod Changes
