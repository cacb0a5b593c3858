pub mod Called
pub mod Plain
