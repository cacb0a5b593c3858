pub mod Puts
pub mod Segments
pub mod Seen
pub mod Apart
