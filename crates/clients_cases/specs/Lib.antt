pub mod Histories
pub mod Refusing
