pub mod Bytes
pub mod Causes
pub mod InMemory
pub mod SystemAnswers
pub mod Lines
pub mod Writing
