pub mod Digits
pub mod Emptied
pub mod SpeltNumbers
pub mod TermLines
pub mod Texts
