pub mod Direct
pub mod Followed
pub mod Made
pub mod Plain
pub mod Stands
pub mod Used
