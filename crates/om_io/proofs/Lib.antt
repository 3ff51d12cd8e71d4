pub mod Counts
pub mod FolderInMemory
pub mod Moved
pub mod Parts
pub mod SinkInMemory
pub mod SourceInMemory
pub mod Told
pub mod Outlets
