pub mod ReadyLemmas
pub mod AgreeLemmas
pub mod RunPast
pub mod RestedFlags
pub mod Picked
pub mod WaitLaws
pub mod OneMove
pub mod ListedBranches
