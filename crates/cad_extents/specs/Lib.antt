pub mod Extents
pub mod Places
