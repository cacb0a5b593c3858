pub mod Views
pub mod Written
pub mod Answered
pub mod Opening
pub mod Lived
pub mod Booted
pub mod Unready
pub mod Program
