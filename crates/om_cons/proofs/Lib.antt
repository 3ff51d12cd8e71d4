pub mod Places
pub mod Identity
