pub mod Goes
pub mod Segment
pub mod Told
