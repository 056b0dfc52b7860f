pub mod Instructions
pub mod Sample
pub mod Filling
