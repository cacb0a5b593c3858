pub mod ReadyPairs
pub mod Agree
pub mod RunPast
pub mod RestedFlags
pub mod Picked
