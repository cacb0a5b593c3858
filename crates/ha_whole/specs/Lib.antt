pub mod Lasts
pub mod Named
pub mod Segments
pub mod Whole
pub mod Trace
