pub mod Journal
pub mod Reads
pub mod Message
pub mod Rule
pub mod Turns
pub mod Origins
pub mod Puts
