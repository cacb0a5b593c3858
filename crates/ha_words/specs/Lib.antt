pub mod Counts
pub mod Grammar
pub mod Texts
pub mod PlanOf
