pub mod Counts
pub mod FileSink
pub mod MemKeeper
pub mod MemPlace
pub mod MemSink
pub mod MemSource
pub mod Told
pub mod Whole
