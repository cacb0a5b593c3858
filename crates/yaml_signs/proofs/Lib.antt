pub mod FlowSigns
pub mod LeafSigns
mod PieceSigns
mod LayoutSigns
mod Signs
