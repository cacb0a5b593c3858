pub mod Places
pub mod LaneLemmas
pub mod TableLemmas
pub mod EndLemmas
pub mod StopLemmas
pub mod RoomLemmas
pub mod ChangeLaws
