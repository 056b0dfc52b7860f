pub mod Syntax
pub mod Views
pub mod Order
pub mod lemmas
