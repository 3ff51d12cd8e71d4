pub mod Generator
pub mod Model
pub mod Events
pub mod Sums
pub mod Texts
pub mod NoLines
pub mod Laws
