pub mod Opened
pub mod Served
pub mod Stands
pub mod Core
pub mod Team
pub mod Finish
