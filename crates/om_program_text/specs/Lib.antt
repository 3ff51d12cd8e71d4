pub mod Parts
pub mod ProgramText
pub mod Spelt
pub mod Words
