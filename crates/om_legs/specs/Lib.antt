pub mod Legs
pub mod Splits
pub mod Walks
pub mod Crossings
pub mod Branches
pub mod BranchNodes
