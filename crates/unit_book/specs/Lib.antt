pub mod Book
pub mod Opens
