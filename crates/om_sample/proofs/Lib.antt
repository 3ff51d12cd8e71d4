pub mod Draws
pub mod Drawn
pub mod Adding
pub mod CodeSums
pub mod Balance
pub mod Accepted
pub mod Made
mod LinesOfScalars
pub mod OneFlow
pub mod Process
pub mod ByCode
