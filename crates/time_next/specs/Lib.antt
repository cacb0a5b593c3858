pub mod Day
pub mod Next
