pub mod Domain
pub mod Anew
pub mod Table
