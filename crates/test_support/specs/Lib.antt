pub mod Copies
pub mod Echoes
