pub mod Fusions
pub mod Joining
pub mod Loops
pub mod Texts
