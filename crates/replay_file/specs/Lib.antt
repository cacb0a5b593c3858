pub mod Fronts
pub mod Boot
pub mod Judged
pub mod Steps
pub mod Replays
