pub mod ListLemmas
pub mod PastLemmas
pub mod FiringLemmas
pub mod HoldLaws
pub mod EntryLaws
pub mod EventLaws
pub mod RestartLemmas
