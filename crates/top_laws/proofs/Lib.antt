pub mod Completeness
pub mod LinesUtf8
pub mod BootTexts
pub mod ReplayEnds
pub mod RunReplayed
pub mod PlayedAgain
