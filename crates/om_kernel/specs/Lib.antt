pub mod Waves
pub mod Slots
pub mod IndexSums
pub mod Components
pub mod Forms
pub mod Calls
pub mod EdgeForms
pub mod EdgeSums
