mod Values
mod Templates
mod Triggers
mod Envs
mod Scripts
mod Entries
mod Frames
mod Parts
pub mod Engines
