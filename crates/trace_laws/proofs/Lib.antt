pub mod FeedLemmas
pub mod CutLemmas
pub mod FirstLemmas
pub mod FrontLemmas
pub mod EntryLemmas
pub mod WalkLemmas
pub mod RoomLemmas
pub mod RunLemmas
