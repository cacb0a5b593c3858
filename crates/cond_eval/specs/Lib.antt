pub mod Seen
pub mod Cases
