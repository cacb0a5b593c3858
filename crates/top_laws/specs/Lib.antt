pub mod Unhindered
pub mod Traced
