pub mod Deeds
pub mod lemmas
