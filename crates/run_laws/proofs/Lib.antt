pub mod OldLaws
pub mod EndsLaws
pub mod CallLaws
pub mod AttemptLaws
pub mod EntryLaws
