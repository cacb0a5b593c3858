pub mod Asked
pub mod Concern
pub mod Readers
pub mod Runs
pub mod Stands
pub mod Tested
pub mod Timers
