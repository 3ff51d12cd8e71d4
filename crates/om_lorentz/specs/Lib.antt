pub mod Structures
pub mod Matrices
pub mod Phases
pub mod Entries
pub mod Propagators
pub mod Laws
