pub mod Attributes
pub mod Collections
pub mod Schema
pub mod lemmas
