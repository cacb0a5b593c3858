pub mod NoHelpers
pub mod StartLemmas
pub mod MadeChanges
pub mod BoundLemmas
pub mod NoChanges
