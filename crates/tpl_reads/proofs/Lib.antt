pub mod KnownRolls
pub mod SameLemmas
pub mod ExprLemmas
pub mod TemplateLemmas
pub mod OnceLemmas
pub mod FindLemmas
pub mod FormLemmas
pub mod WorkedRows
