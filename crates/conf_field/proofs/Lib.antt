pub mod DigitSteps
pub mod Finds
pub mod HoldsLaws
pub mod Made
pub mod PartLaws
pub mod SpanSums
pub mod TemplateSigns
pub mod TreeLaws
