pub mod Leaves
pub mod inner
